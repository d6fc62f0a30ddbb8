-- What `certify` and `migrate` refuse of the same files.
use Rattle.std.specs.Prelude.{◌≡◌, ⊤, ℕ, ◌⊎◌, List, Some}
use Rattle.dcx_host.specs.Faults.{Rose}
use Rattle.dcx_host.specs.Files.{Files}
use Rattle.dcx_report.specs.declared.run.Run.{Run}
use Rattle.dcx_report.specs.declared.run.Run.TheVariants as run
use Rattle.dcx_words.specs.Commands.{certify, migrate, command_of}
use Rattle.dcx_top.specs.OneRun.{IsAnswered}
use Rattle.dcx_top.specs.Runs.{Causes}

-- the run refuses a file, or what stands in the certificate
abbrev pub Refuses : Run → Type 0
Refuses (run.Refused r) = ⊤
Refuses (run.CertRefused section fault) = ⊤
Refuses run.Usage = ⊥
Refuses (run.Checked c) = ⊥
Refuses (run.Solved word sense outcomes warm) = ⊥
Refuses (run.Certificates text stopped) = ⊥
Refuses (run.Certified n) = ⊥
Refuses (run.Trial size outcomes) = ⊥
Refuses (run.Filtered outcomes) = ⊥
Refuses (run.Ranged parameter sense outcomes) = ⊥
Refuses run.ReadFault = ⊥
Refuses run.Memory = ⊥

-- of the same told files, where neither a file nor memory is wanting, `migrate` refuses exactly where `certify` does, with the same contents
abbrev pub MigrateRefusesAsCertify : Type 0
MigrateRefusesAsCertify = (certifying migrating : List (List ℕ)) (script settings name : List ℕ) (files : Files) (before now old new past later from to : ℕ) (c m : Run)
    → command_of certifying ≡ Some (certify script settings name)
    → command_of migrating ≡ Some (migrate script settings name) → Causes certifying (Some files) (Rose before now) old new c → Causes migrating (Some files) (Rose past later) from to m
    → IsAnswered c → IsAnswered m → Refuses c ⊎ Refuses m → c ≡ m
