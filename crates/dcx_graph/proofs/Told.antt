-- What stops rows, and what follows from it.
use Rattle.std.proofs.Common.{◌≡◌, ℕ, Result, Ok, Err, inl, inr, refl}
use Rattle.dcx_frac.specs.declared.fraction.Passes.{Passes}
use Rattle.dcx_answer.specs.declared.site.Site.{Site}
use Rattle.dcx_answer.specs.declared.site.Site.TheVariants as sites
use Rattle.dcx_linear.specs.declared.stop.CoefStop.{CoefStop}
use Rattle.dcx_linear.specs.declared.stop.CoefStop.TheVariants as coefs
use Rattle.dcx_linear.specs.Stops.{OnPass}
use Rattle.dcx_graph.specs.declared.stop.ReduceStop.{ReduceStop}
use Rattle.dcx_graph.specs.Program.{AtRow}
use Rattle.dcx_graph.specs.Stops.{IsWideAt, TellsBy, stop_at_row}

module _ (site : ℕ → Passes → Site) where
  -- a fact of what stops follows from another
  pub IsWideAt-weaker : (e : ReduceStop) (P Q : ℕ × Passes → Type 0) → ((s : ℕ × Passes) → P s → Q s) → IsWideAt site P e → IsWideAt site Q e
  IsWideAt-weaker e P Q f (inl h) = inl (h.0, h.1, f h.0 h.2)
  IsWideAt-weaker e P Q f (inr h) = inr h

  -- a fact of an answer follows from another, at values and at what stops
  pub TellsBy-weaker : {A B D : Type 0} (r : Result A ReduceStop) (v : A → B) (w : A → D) (P : Result B (ℕ × Passes) → Type 0) (Q : Result D (ℕ × Passes) → Type 0)
      → ((x : A) → P (Ok (v x)) → Q (Ok (w x))) → ((s : ℕ × Passes) → P (Err s) → Q (Err s)) → TellsBy site r v P → TellsBy site r w Q
  TellsBy-weaker (Ok x) v w P Q f g h = f x h
  TellsBy-weaker (Err e) v w P Q f g h = IsWideAt-weaker e (λ s. P (Err s)) (λ s. Q (Err s)) g h

-- what stops the forming of a row, stops it there
pub stops_row : {A : Type 0} (n : ℕ) (F : Result A Passes → Type 0) (stop : CoefStop) (e : ReduceStop) → e ≡ stop_at_row n stop → OnPass stop (λ passes. F (Err passes))
    → IsWideAt (λ row passes. sites.Row row passes) (λ s. AtRow n F (Err s)) e
stops_row n F (coefs.Passes passes) e is h = inl ((n, passes), is, (refl, h))
stops_row n F coefs.Memory e is h = inr is
