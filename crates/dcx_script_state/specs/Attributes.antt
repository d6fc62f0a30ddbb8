-- The attributes of a declaration.
use Rattle.std.specs.Prelude.{ℕ, nat_eq, nat_le, Bool, ◌&&◌, ◌||◌, if◌then◌else◌, List, [], ◌∷◌}
use Rattle.std.specs.List.{count_by}
use Rattle.dcx_call.specs.declared.attribute.Attribute.{Attribute}
use Rattle.dcx_call.specs.declared.attribute.Attribute.TheVariants.{Free, Nonneg, Nonpos, Symmetric, Diag}
use Rattle.dcx_call.specs.declared.attribute.Whole.{Whole}
use Rattle.dcx_call.specs.declared.attribute.Whole.TheVariants.{Not, Integer, Boolean}
use Rattle.dcx_script_state.specs.declared.flags.Flags.{Flags}

abbrev pub trues : List Bool → ℕ
trues bs = count_by (λ b. b) bs

-- at most one of them, but `integer` may stand beside `nonneg` or beside `nonpos`
abbrev pub may_stand : Flags → Bool
may_stand f =
    nat_le (trues (f.nonneg ∷ f.nonpos ∷ f.symmetric ∷ f.diag ∷ f.boolean ∷ f.integer ∷ [])) 1
    || (f.integer && nat_le (trues (f.nonneg ∷ f.nonpos ∷ [])) 1 && nat_eq (trues (f.symmetric ∷ f.diag ∷ f.boolean ∷ [])) 0)

-- what is to be 0 or 1 is listed as nonneg
abbrev pub attribute_of : Flags → Attribute
attribute_of f =
    if f.nonneg || f.boolean then Nonneg
    else (if f.nonpos then Nonpos else (if f.symmetric then Symmetric else (if f.diag then Diag else Free)))

abbrev pub whole_of : Flags → Whole
whole_of f = if f.boolean then Boolean else (if f.integer then Integer else Not)

-- the attribute of a parameter, of which only the sign can be told
abbrev pub sign_attribute : (nonneg nonpos : Bool) → Attribute
sign_attribute nonneg nonpos = if nonneg then Nonneg else (if nonpos then Nonpos else Free)
