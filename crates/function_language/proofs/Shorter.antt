-- Readers of something leave fewer tokens than there were.
use Rattle.std.proofs.Common.{List, Ok, codes, length, refl, sym, ℕ, ◌<◌, ◌≡◌}
use Rattle.program_tokens.specs.declared.token.Token.{Token}
use Rattle.function_language.specs.steps.Reading.{block, expr, function, param, statement_of, stream}
use Rattle.function_language.specs.Spelled.{expr_pieces, statement_pieces}
use Rattle.function_language.specs.declared.tree.Expr.{Expr}
use Rattle.function_language.specs.declared.tree.Function.{Function}
use Rattle.function_language.specs.declared.tree.Param.{Param}
use Rattle.function_language.specs.declared.tree.Statement.{Statement}
use Rattle.function_language.specs.declared.tree.Stream.{Stream}
use Rattle.program_tokens.proofs.Firsts.{Free, heads_some}
use Rattle.program_tokens.proofs.Avoiding.{Avoids}
use Rattle.function_language.proofs.GrammarSignatures.{param_right, stream_right}
use Rattle.function_language.proofs.GrammarExpressions.{expr_first, expr_right}
use Rattle.function_language.proofs.GrammarStatements.{block_right, statement_avoids, statement_right}
use Rattle.function_language.proofs.GrammarFunctions.{function_right, function_some}
use Rattle.program_tokens.proofs.Shorter.{right_shorter}

-- a parameter
pub param_shorter : (ts : List Token) (p : Param) (rest : List Token) → param ts ≡ Ok (p, rest) → length rest < length ts
param_shorter = right_shorter (param_right Free) (λ p e. cc)

-- a stream
pub stream_shorter : (ts : List Token) (s : Stream) (rest : List Token) → stream ts ≡ Ok (s, rest) → length rest < length ts
stream_shorter = right_shorter (stream_right Free) (λ s e. cc)

-- an expression
pub expr_shorter : (depth : ℕ) (ts : List Token) (e : Expr) (rest : List Token) → expr depth ts ≡ Ok (e, rest) → length rest < length ts
expr_shorter depth = right_shorter (expr_right depth) (heads_some (Avoids (codes ")")) (expr_pieces depth) (λ e. expr_first depth (codes ")") e refl refl))

-- a statement
pub statement_shorter : (depth : ℕ) (ts : List Token) (s : Statement) (rest : List Token) → statement_of (expr depth) (block depth) ts ≡ Ok (s, rest) → length rest < length ts
statement_shorter depth = right_shorter (statement_right depth) (heads_some (Avoids (codes "}")) (statement_pieces depth) (statement_avoids depth (codes "}") refl refl refl refl refl refl))

-- a block
pub block_shorter : (depth : ℕ) (ts : List Token) (ss : List Statement) (rest : List Token) → block depth ts ≡ Ok (ss, rest) → length rest < length ts
block_shorter depth = right_shorter (block_right depth Free) (λ ss e. cc)

-- a function
pub function_shorter : (ts : List Token) (f : Function) (rest : List Token) → function ts ≡ Ok (f, rest) → length rest < length ts
function_shorter = right_shorter function_right (λ f e. function_some f (sym e))
