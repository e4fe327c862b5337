-- Texts whose tokens and functions were written down by hand.
use Rattle.std.specs.Prelude.{ℕ, List, [], ◌∷◌, codes}
use Rattle.hal_base.specs.declared.value.Kind.TheVariants as a_kind
use Rattle.program_tokens.specs.declared.token.Ident.{Ident}
use Rattle.program_tokens.specs.declared.token.Lexeme.TheVariants.{Plain, Quoted, End}
use Rattle.program_tokens.specs.declared.token.Token.{Token}
use Rattle.program_tokens.specs.Texts.{IsTextOf}
use Rattle.function_language.specs.declared.tree.Expr.TheVariants as an_expr
use Rattle.function_language.specs.declared.tree.Function.{Function}
use Rattle.function_language.specs.declared.tree.Function.TheVariants as a_function
use Rattle.function_language.specs.declared.tree.Statement.TheVariants as a_statement
use Rattle.function_language.specs.Spelled.{only_functions_pieces}

-- words and a mark in line 1, and in line 3 a text with a quote and a `\`
abbrev pub small_tokens : List Token
small_tokens =
    record { lexeme = Plain (codes "a"); line = 1 }
    ∷ record { lexeme = Plain (codes "->"); line = 1 }
    ∷ record { lexeme = Plain (codes "b_1"); line = 1 }
    ∷ record { lexeme = Quoted (codes "c\"\\"); line = 3 }
    ∷ record { lexeme = End; line = 3 }
    ∷ []

-- a name in a line
abbrev pub named : ℕ → List ℕ → Ident
named line text = record { text = text; line = line }

-- a partition of line 1 that gives, in line 2, its key
abbrev pub key_part : Function
key_part = a_function.Partition (named 1 (codes "f")) (record { name = named 1 (codes "k"); kind = a_kind.Int }) (a_statement.Give 2 (an_expr.Name (named 2 (codes "k"))) ∷ [])

-- the text is that of this partition alone
abbrev pub IsKeyPart : List ℕ → Type 0
IsKeyPart text = IsTextOf only_functions_pieces text (key_part ∷ [])
