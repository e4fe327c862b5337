-- When a text is that of a program, and why it is refused.
use Rattle.std.specs.Prelude.{◌≡◌, ◌⊎◌, ℕ, ◌<◌, ◌≤◌, List, length}
use Rattle.program_tokens.specs.Texts.{HasFaultAt, IsTextOf}
use Rattle.program_sketch.specs.declared.fault.ProgramFault.{ProgramFault}
use Rattle.program_sketch.specs.declared.fault.ProgramFault.TheVariants.{At, Memory}
use Rattle.program_sketch.specs.declared.fault.What.{What}
use Rattle.program_sketch.specs.declared.fault.What.TheVariants.{Syntax, Limit}
use Rattle.program_sketch.specs.declared.sketch.Sketch.{Sketch}
use Rattle.program_sketch.specs.Spelled.{program_pieces}

-- how long a program's text may be
abbrev pub most_bytes : ℕ
most_bytes = 1048576

-- ---- spelling

-- the text, which is not too long, is that of the program
abbrev pub IsProgramText : List ℕ → Sketch → Type 0
IsProgramText text sketch = (length text ≤ most_bytes) × IsTextOf program_pieces text sketch

-- what is wrong with the spelling in this line: the text is too long, which is said of line 1, or it has a fault of syntax there
abbrev pub IsMisspelled : List ℕ → ℕ → What → Type 0
IsMisspelled text line what =
    ((what ≡ Limit) × (most_bytes < length text) × (line ≡ 1))
    ⊎ ((what ≡ Syntax) × (length text ≤ most_bytes) × HasFaultAt program_pieces text line)

-- the text is that of this program and of no other, and is not misspelled
pub record IsJustProgram (text : List ℕ) (sketch : Sketch) : Type 0 where
  pub is : IsProgramText text sketch
  pub only : (other : Sketch) → IsProgramText text other → other ≡ sketch
  pub right : (line : ℕ) (what : What) → IsMisspelled text line what → ⊥

-- why the text is not read: it is misspelled, and it is that of no program
abbrev pub IsNotRead : List ℕ → ProgramFault → Type 0
IsNotRead text (At line what) = IsMisspelled text line what × ((sketch : Sketch) → IsProgramText text sketch → ⊥)
IsNotRead text Memory = Unit {0}

-- ---- laws

-- a text is that of one program
abbrev pub TextIsOfOneProgram : Type 0
TextIsOfOneProgram = (text : List ℕ) (some other : Sketch) → IsProgramText text some → IsProgramText text other → some ≡ other
