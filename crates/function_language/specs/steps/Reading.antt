-- How functions are read, for the contracts of the reading steps alone. The number is how many blocks and calls may still open inside.
use Rattle.std.specs.Prelude.{ℕ, zero, suc, Bool, cond, ◌||◌, List, [], ◌∷◌, length, Option, None, Some, Ok, codes}
use Rattle.std.specs.Str.{bytes_eq}
use Rattle.program_tokens.specs.declared.token.Lexeme.{Lexeme}
use Rattle.program_tokens.specs.declared.token.Lexeme.TheVariants as lexeme
use Rattle.program_tokens.specs.declared.token.Token.{Token}
use Rattle.program_tokens.specs.steps.Front.{later, sees}
use Rattle.program_tokens.specs.declared.token.Ident.{Ident}
use Rattle.function_language.specs.declared.tree.Param.{Param}
use Rattle.function_language.specs.declared.tree.Stream.{Stream}
use Rattle.function_language.specs.declared.tree.Expr.{Expr}
use Rattle.function_language.specs.declared.tree.Expr.TheVariants as an_expr
use Rattle.function_language.specs.declared.tree.Statement.{Statement}
use Rattle.function_language.specs.declared.tree.Statement.TheVariants as a_statement
use Rattle.function_language.specs.declared.function.Head.{Head}
use Rattle.function_language.specs.declared.function.Tail.{Tail}
use Rattle.function_language.specs.declared.tree.Function.{Function}
use Rattle.function_language.specs.declared.tree.Function.TheVariants as a_function
use Rattle.program_tokens.specs.steps.Parsers.{Parser, kind, kinds, ◌>>=◌, ◌>>◌, pure, refuse, eat, expect, expect_end, expect_line, here, ident, peek, separated, closed, block_from, repeated}

-- ---- parameters and streams

-- the word or mark behind what was found
abbrev pub marked : {A : Type 0} → List ℕ → A → Parser A
marked word found = do
  expect word
  pure found

-- something, and the word or mark behind it
unfoldable pub before : {A : Type 0} → List ℕ → Parser A → Parser A
before word item = do
  found ← item
  marked word found

unfoldable pub param : Parser Param
param = do
  name ← before (codes ":") ident
  of ← kind
  pure (record { name = name; kind = of })

unfoldable pub stream : Parser Stream
stream = do
  name ← before (codes ":") ident
  of ← kinds
  pure (record { name = name; kinds = of })

-- ---- expressions

-- the expression that a token alone is, unless that is a name
abbrev pub literal_in : ℕ → Lexeme → Option Expr
literal_in line (lexeme.Plain word) = cond (bytes_eq word (codes "round")) (Some (an_expr.Round line)) None
literal_in line (lexeme.Int n) = Some (an_expr.Int line n)
literal_in line (lexeme.Quoted text) = Some (an_expr.Text line text)
literal_in line lexeme.Bad = None
literal_in line lexeme.End = None

abbrev pub literal_at : List Token → Option Expr
literal_at [] = None
literal_at (token ∷ tokens) = literal_in token.line token.lexeme

-- the tokens behind the first where it was something
abbrev pub behind : {A : Type 0} → Option A → List Token → List Token
behind (Some a) ts = later ts
behind None ts = ts

-- takes a literal, if one comes next
unfoldable pub literal : Parser (Option Expr)
literal = λ ts. Ok (literal_at ts, behind (literal_at ts) ts)

-- what was found, or else what is read
abbrev pub or_read : {A : Type 0} → Option A → Parser A → Parser A
or_read (Some a) p = pure a
or_read None p = p

-- the arguments of a call and its `)`, behind its name, given how an argument is read
unfoldable pub call_of : Parser Expr → Ident → Parser Expr
call_of arg name = do
  expect (codes "(")
  args ← closed arg
  pure (an_expr.Call name args)

-- a name, or a call, given how it goes on behind its name
unfoldable pub named : (Ident → Parser Expr) → Parser Expr
named call = do
  name ← ident
  opens ← peek (codes "(")
  cond opens (call name) (pure (an_expr.Name name))

-- an expression, given how it goes on behind a name that calls
abbrev pub expr_of : (Ident → Parser Expr) → Parser Expr
expr_of call = do
  found ← literal
  or_read found (named call)

-- a call behind its name
abbrev pub call : ℕ → Ident → Parser Expr
call zero name = refuse
call (suc depth) name = call_of (expr_of (call depth)) name

abbrev pub expr : ℕ → Parser Expr
expr depth = expr_of (call depth)

-- ---- statements

-- what `let` and `set` have in common behind the word
unfoldable pub binding : Parser Expr → (Ident → Expr → Statement) → Parser Statement
binding value made = do
  name ← before (codes "=") ident
  bound ← before (codes ";") value
  pure (made name bound)

-- what stands between parentheses
unfoldable pub enclosed : Parser Expr → Parser Expr
enclosed value = do
  expect (codes "(")
  before (codes ")") value

-- what stands behind the block of an `if`
unfoldable pub other : Parser (List Statement) → Parser (Option (List Statement))
other block = do
  has_other ← eat (codes "else")
  cond has_other (do
    found ← block
    pure (Some found)) (pure None)

unfoldable pub if_statement : Parser Expr → Parser (List Statement) → Parser Statement
if_statement value block = do
  test ← enclosed value
  chosen ← block
  rest ← other block
  pure (a_statement.If test chosen rest)

unfoldable pub for_statement : Parser (List Statement) → Parser Statement
for_statement block = do
  expect (codes "(")
  names ← closed ident
  expect (codes "in")
  over ← ident
  body ← block
  pure (a_statement.For names over body)

unfoldable pub emit_statement : Parser Expr → ℕ → Parser Statement
emit_statement value line = do
  expect (codes "(")
  args ← closed value
  expect (codes ";")
  pure (a_statement.Emit line args)

unfoldable pub give_statement : Parser Expr → ℕ → Parser Statement
give_statement value line = do
  given ← enclosed value
  expect (codes ";")
  pure (a_statement.Give line given)

-- `emit` or `give`
unfoldable pub result_statement : Parser Expr → Parser Statement
result_statement value = do
  line ← here
  emits ← eat (codes "emit")
  cond emits (emit_statement value line) (do
    expect (codes "give")
    give_statement value line)

-- a statement, given how expressions and blocks in it are read
unfoldable pub statement_of : Parser Expr → Parser (List Statement) → Parser Statement
statement_of value block = do
  lets ← eat (codes "let")
  cond lets (binding value a_statement.Let) (do
    sets ← eat (codes "set")
    cond sets (binding value a_statement.Set) (do
      ifs ← eat (codes "if")
      cond ifs (if_statement value block) (do
        fors ← eat (codes "for")
        cond fors (for_statement block) (result_statement value))))

-- the statements of a block and its `}`
abbrev pub statements : Parser Statement → Parser (List Statement)
statements statement = λ ts. block_from statement (suc (length ts)) [] ts

abbrev pub block : ℕ → Parser (List Statement)
block zero = refuse
block (suc depth) = expect (codes "{") >> statements (statement_of (expr depth) (block depth))

-- ---- functions

-- the body of a function
unfoldable pub body : Parser (List Statement)
body = block 32

-- a name, and a key with the mark behind it
unfoldable pub head : List ℕ → Parser Head
head mark = do
  name ← before (codes "(") ident
  key ← before mark param
  pure (record { name = name; key = key })

-- what a function emits, and its body
unfoldable pub tail : Parser Tail
tail = do
  arrow ← expect_line (codes "->")
  out ← kinds
  body ← body
  pure (record { arrow = arrow; out = record { kinds = out }; body = body })

unfoldable pub map_function : Parser Function
map_function = do
  name ← before (codes "(") ident
  params ← before (codes ")") (separated param)
  rest ← tail
  pure (a_function.Map name params rest.arrow rest.out rest.body)

unfoldable pub reduce_function : Parser Function
reduce_function = do
  head ← head (codes ";")
  streams ← before (codes ")") (separated stream)
  rest ← tail
  pure (a_function.Reduce head.name head.key streams rest.arrow rest.out rest.body)

-- the two streams of a distance, up to `)`
unfoldable pub compared : Parser (Stream × Stream)
compared = do
  old ← before (codes ",") stream
  new ← before (codes ")") stream
  pure (old, new)

unfoldable pub distance_function : Parser Function
distance_function = do
  head ← head (codes ";")
  streams ← compared
  body ← body
  pure (a_function.Distance head.name head.key streams.0 streams.1 body)

unfoldable pub partition_function : Parser Function
partition_function = do
  head ← head (codes ")")
  body ← body
  pure (a_function.Partition head.name head.key body)

unfoldable pub function : Parser Function
function = do
  maps ← eat (codes "map")
  cond maps map_function (do
    reduces ← eat (codes "reduce")
    cond reduces reduce_function (do
      distances ← eat (codes "distance")
      cond distances distance_function (do
        expect (codes "partition")
        partition_function)))

-- a function comes next
abbrev pub begins_function : List Token → Bool
begins_function ts = sees (codes "map") ts || sees (codes "reduce") ts || sees (codes "distance") ts || sees (codes "partition") ts

-- functions as long as one comes next
abbrev pub functions : Parser (List Function)
functions = repeated begins_function function []

-- functions alone, to the end
unfoldable pub only_functions : Parser (List Function)
only_functions = do
  found ← functions
  expect_end
  pure found
