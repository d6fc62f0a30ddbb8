-- What a library of files has under its names, where it tells that.
use Rattle.std.specs.Prelude.{◌≡◌, ℕ, ◌<◌, List, length, None, Some, ⊤, String}
use Rattle.std.specs.BTreeMap.{BTreeMap, get_by_text}
use Rattle.std.specs.Global.{Global}
use Rattle.std.specs.declared.option.Option.{Option}

-- the bytes of each name
abbrev pub Files : Type 0
Files = List ℕ → Option (List ℕ)

-- where the files are told, these are the bytes of the name
abbrev pub IsTold : Option Files → List ℕ → List ℕ → Type 0
IsTold None name bytes = ⊤
IsTold (Some files) name bytes = files name ≡ Some bytes

-- the files are told, and the name is not among them
abbrev pub Lacks : Option Files → List ℕ → Type 0
Lacks None name = ⊥
Lacks (Some files) name = files name ≡ None

-- where the files are told, the name has more bytes than that
abbrev pub HasMore : Option Files → List ℕ → ℕ → Type 0
HasMore None name most = ⊤
HasMore (Some files) name most = (bytes : List ℕ) × (files name ≡ Some bytes) × (most < length bytes)

-- the files of a map from names to bytes
abbrev pub files_of : BTreeMap (String Global) (List ℕ) → Files
files_of map name = get_by_text map name
