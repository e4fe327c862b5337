-- When a decoder reads exactly the texts of some values.
use Rattle.std.specs.Prelude.{◌≡◌, ℕ, ◌<◌, ◌≤◌, List, ◌++◌, Some, IfSome}
use Rattle.std.specs.List.{AllByRecursion}
use Rattle.record_blocks.specs.steps.Decoders.{Decoder}

-- numbers of eight bits
abbrev pub AreBytes : List ℕ → Type 0
AreBytes bs = AllByRecursion (λ b. b < 256) bs

-- each byte can stand in a text
abbrev pub ArePrintable : List ℕ → Type 0
ArePrintable bs = AllByRecursion (λ byte. (32 ≤ byte) × (byte ≤ 126)) bs

-- what is read has P and stands there as its text, and the text of what has P is read, whatever follows it
pub record IsExact {A : Type 0} (text : A → List ℕ) (P : A → Type 0) (p : Decoder A) : Type 0 where
  pub takes : (bs : List ℕ) → AreBytes bs → IfSome (p bs) (λ x. P x.0 × (bs ≡ text x.0 ++ x.1))
  pub again : (x : A) (rest : List ℕ) → P x → p (text x ++ rest) ≡ Some (x, rest)
