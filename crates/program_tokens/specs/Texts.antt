-- When a text is that of a tree, and where it has a fault, given how trees are spelled.
use Rattle.std.specs.Prelude.{◌≡◌, ℕ, List, [], ◌∷◌, ◌++◌}
use Rattle.program_tokens.specs.declared.token.Token.{Token}
use Rattle.program_tokens.specs.Tokens.{AreTokensOf}
use Rattle.program_tokens.specs.declared.fault.SyntaxFault.{SyntaxFault}
use Rattle.program_tokens.specs.declared.fault.SyntaxFault.TheVariants.{At, Memory}
use Rattle.program_tokens.specs.Pieces.{Piece, Stand}

-- the text is that of the tree: its tokens stand at the places of the tree's spelling
pub record IsTextOf {A : Type 0} (spelled : A → List Piece) (text : List ℕ) (tree : A) : Type 0 where
  pub tokens : List Token
  pub are : AreTokensOf text tokens
  pub stand : Stand (spelled tree) tokens

-- some tree begins with these tokens
pub record Begins {A : Type 0} (spelled : A → List Piece) (tokens : List Token) : Type 0 where
  pub tree : A
  pub front : List Piece
  pub rest : List Piece
  pub whole : spelled tree ≡ front ++ rest
  pub stand : Stand front tokens

-- the first token such that no tree begins with the tokens up to it stands in this line
pub record HasFaultAt {A : Type 0} (spelled : A → List Piece) (text : List ℕ) (line : ℕ) : Type 0 where
  pub before : List Token
  pub token : Token
  pub behind : List Token
  pub are : AreTokensOf text (before ++ token ∷ behind)
  pub begins : Begins spelled before
  pub stops : Begins spelled (before ++ token ∷ []) → ⊥
  pub in_line : line ≡ token.line

-- a text is that of one tree
abbrev pub IsOfOneTree : {A : Type 0} → (A → List Piece) → Type 0
IsOfOneTree {A} spelled = (text : List ℕ) (some other : A) → IsTextOf spelled text some → IsTextOf spelled text other → some ≡ other

-- a text that has its fault in a line is that of no tree, and has it in no other line
abbrev pub FaultIsOfNoTree : {A : Type 0} → (A → List Piece) → Type 0
FaultIsOfNoTree {A} spelled = (text : List ℕ) (line : ℕ) → HasFaultAt spelled text line → ((tree : A) → IsTextOf spelled text tree → ⊥) × ((other : ℕ) → HasFaultAt spelled text other → other ≡ line)

-- what a fault says of the text
abbrev pub Refuses : {A : Type 0} → (A → List Piece) → List ℕ → SyntaxFault → Type 0
Refuses spelled text (At line) = HasFaultAt spelled text line
Refuses spelled text Memory = Unit {0}
