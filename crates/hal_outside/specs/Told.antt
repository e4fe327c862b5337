-- What files and a sink tell of themselves.
use Rattle.std.specs.Prelude.{◌≡◌, ℕ, ◌-◌, ◌^◌, ◌<◌, ◌⊎◌, ◌++◌, List, Option, None, Some, take}
use Rattle.std.specs.Ordering.{nat_cmp}
use Rattle.std.specs.Cmp.Lexicographic.{slice_cmp}
use Rattle.std.specs.FinMap as map
use Rattle.std.specs.declared.vec.Vec.{Vec}
use Rattle.std.specs.declared.alloc.Global.{Global}

-- from the bytes of a name to those of its file
abbrev pub FileMap : Type 0
FileMap = map.FinMap (slice_cmp nat_cmp) (List ℕ)

-- the bytes of a vector
abbrev pub vec_bytes : Vec ℕ Global → List ℕ
vec_bytes v = v.items

-- a count rose, or stands at its last value
abbrev pub Rose : ℕ → ℕ → Type 0
Rose before now = (before < now) ⊎ (now ≡ 2 ^ 64 - 1)

-- the old bytes or a prefix of the new ones under this name, and every other name as before
abbrev pub AfterFailedWrite : Option FileMap → List ℕ → List ℕ → Option FileMap → Type 0
AfterFailedWrite None name bytes now = now ≡ None
AfterFailedWrite (Some files) name bytes now = (now ≡ Some files) ⊎ ((n : ℕ) × (now ≡ Some (map.insert files name (take n bytes))))

-- a prefix of the bytes was added
abbrev pub AfterFailedAppend : Option (List ℕ) → List ℕ → Option (List ℕ) → Type 0
AfterFailedAppend None bytes now = now ≡ None
AfterFailedAppend (Some held) bytes now = (n : ℕ) × (now ≡ Some (held ++ take n bytes))

-- a relation of what was told before and after, where it is told
abbrev pub OnTold : {A : Type 0} → (A → A → Type 0) → Option A → Option A → Type 0
OnTold P None after = after ≡ None
OnTold P (Some before) None = ⊥
OnTold P (Some before) (Some after) = P before after
