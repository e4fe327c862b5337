-- The texts of names.
use Rattle.std.specs.Prelude.{◌≡◌, ℕ, List, [], ◌∷◌, codes}
use Rattle.node_names.specs.declared.name.Name.{Name}
use Rattle.node_names.specs.declared.name.Name.TheVariants.{Blk, Spill, Out, Ric, Mic, Roc}
use Rattle.node_names.specs.declared.name.NameKind.{NameKind}
use Rattle.node_names.specs.declared.name.NameKind.TheVariants as kind
use Rattle.node_names.specs.Worded.{AreSmall, worded}

-- the sort of a name
abbrev pub kind_of : Name → NameKind
kind_of (Blk table block) = kind.Blk
kind_of (Spill round step source split) = kind.Spill
kind_of (Out round step part) = kind.Out
kind_of (Ric step source part) = kind.Ric
kind_of (Mic table block) = kind.Mic
kind_of (Roc round part) = kind.Roc

-- the numbers of a name, from the left
abbrev pub numbers_of : Name → List ℕ
numbers_of (Blk table block) = table ∷ block ∷ []
numbers_of (Spill round step source split) = round ∷ step ∷ source ∷ split ∷ []
numbers_of (Out round step part) = round ∷ step ∷ part ∷ []
numbers_of (Ric step source part) = step ∷ source ∷ part ∷ []
numbers_of (Mic table block) = table ∷ block ∷ []
numbers_of (Roc round part) = round ∷ part ∷ []

-- the word of a sort
abbrev pub kind_word : NameKind → List ℕ
kind_word kind.Blk = codes "blk"
kind_word kind.Spill = codes "spill"
kind_word kind.Out = codes "out"
kind_word kind.Ric = codes "ric"
kind_word kind.Mic = codes "mic"
kind_word kind.Roc = codes "roc"

-- the word of its sort and its numbers, with `-` between
abbrev pub name_text : Name → List ℕ
name_text name = worded 45 (kind_word (kind_of name)) (numbers_of name)

-- two names of one text are one name
abbrev pub DistinctNames : Type 0
DistinctNames = (a b : Name) → AreSmall (numbers_of a) → AreSmall (numbers_of b) → name_text a ≡ name_text b → a ≡ b
