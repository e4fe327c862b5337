-- Small worked programs, as they are written.
use Rattle.std.specs.Prelude.{ℕ, pos, true, false, List, [], ◌∷◌, Option, None, Some, codes}
use Rattle.hal_base.specs.declared.value.Kind.TheVariants as kind
use Rattle.program_tokens.specs.declared.token.Ident.{Ident}
use Rattle.program_tokens.specs.declared.token.Number.{Number}
use Rattle.function_language.specs.declared.tree.Expr.{Expr, Int, Round, Name, Call', end_of-Expr, more_of-Expr}
use Rattle.function_language.specs.declared.tree.Function.{Function}
use Rattle.function_language.specs.declared.tree.Function.TheVariants.{Map, Reduce, Distance, Partition}
use Rattle.function_language.specs.declared.tree.Param.{Param}
use Rattle.function_language.specs.declared.tree.Row.{Row}
use Rattle.function_language.specs.declared.tree.Statement.{Statement, Let, Set, For', Emit, Give, end_of-Statement, more_of-Statement}
use Rattle.function_language.specs.declared.tree.Stream.{Stream}
use Rattle.program_sketch.specs.declared.sketch.Asked.{Asked}
use Rattle.program_sketch.specs.declared.sketch.InputSketch.{InputSketch}
use Rattle.program_sketch.specs.declared.sketch.Sketch.{Sketch}
use Rattle.program_sketch.specs.declared.sketch.StepSketch.{StepSketch}
use Rattle.program_sketch.specs.declared.sketch.StopSketch.{StopSketch}
use Rattle.program_sketch.specs.declared.sketch.StopSketch.TheVariants.{Exact, Below}
use Rattle.program_sketch.specs.declared.sketch.TableSketch.{TableSketch}

-- ---- how they are written; all stands in the first line

-- a name
abbrev pub ident : List ℕ → Ident
ident text = record { text = text; line = 1 }

-- a number
abbrev pub number : ℕ → Number
number n = record { value = pos n; line = 1 }

-- the value of a name
abbrev pub var : List ℕ → Expr
var text = Name (ident text)

-- a number in an expression
abbrev pub lit : ℕ → Expr
lit n = Int 1 (pos n)

-- an operation on two expressions
abbrev pub call : List ℕ → Expr → Expr → Expr
call operation a b = Call' (ident operation) (tt ∷ tt ∷ []) (more_of-Expr a (more_of-Expr b end_of-Expr))

-- `set NAME = VALUE;`
abbrev pub set_to : List ℕ → Expr → Statement
set_to text value = Set (ident text) value

-- `for (NAME) in STREAM { STATEMENT }`
abbrev pub for_each : List ℕ → List ℕ → Statement → Statement
for_each text stream statement = For' (ident text ∷ []) (ident stream) (tt ∷ []) (more_of-Statement statement end_of-Statement)

-- `emit(KEY, VALUE);`
abbrev pub emit : Expr → Expr → Statement
emit key value = Emit 1 (key ∷ value ∷ [])

-- a parameter that is a number
abbrev pub param : List ℕ → Param
param text = record { name = ident text; kind = kind.Int }

-- a stream of numbers
abbrev pub numbers : List ℕ → Stream
numbers text = record { name = ident text; kinds = kind.Int ∷ [] }

-- records of two numbers
abbrev pub pairs : Row
pairs = record { kinds = kind.Int ∷ kind.Int ∷ [] }

-- a table of such records
abbrev pub table : List ℕ → TableSketch
table text = record { name = ident text; file = codes "file"; line = 1; row = pairs }

-- a table that a step reads in every round
abbrev pub input : List ℕ → List ℕ → InputSketch
input text by = record { table = ident text; only = None; map = ident by }

-- a table that it reads in one round
abbrev pub input_once : List ℕ → ℕ → List ℕ → InputSketch
input_once text round by = record { table = ident text; only = Some (number round); map = ident by }

-- a step whose first source goes through `same`
abbrev pub step : List InputSketch → List ℕ → Option Ident → StepSketch
step inputs reduce partition = record { line = 1; map = ident (codes "same"); inputs = inputs; reduce = ident reduce; partition = partition }

-- no cache is asked for
abbrev pub no_cache : Asked
no_cache = record { reducer_input = false; reducer_output = false; mapper_input = false }

-- the mapper input cache alone
abbrev pub mapper_alone : Asked
mapper_alone = record { reducer_input = false; reducer_output = false; mapper_input = true }

-- both caches at the reducer
abbrev pub at_reducers : Asked
at_reducers = record { reducer_input = true; reducer_output = true; mapper_input = false }

-- both caches of input
abbrev pub of_inputs : Asked
of_inputs = record { reducer_input = true; reducer_output = false; mapper_input = true }

-- all caches
abbrev pub all_caches : Asked
all_caches = record { reducer_input = true; reducer_output = true; mapper_input = true }

-- a program of two parts that begins with the table of this name
abbrev pub program : StopSketch → Asked → List ℕ → List TableSketch → List Function → List StepSketch → Sketch
program stop asked start tables functions steps = record {
  name = ident (codes "worked");
  parts = number 2;
  rounds = number 20;
  stop = stop;
  asked = asked;
  tables = tables;
  functions = functions;
  start = ident start;
  steps = steps;
}

-- ---- functions

-- `map late(k: int, v: int) -> (int, int) { emit(k, add(v, round)); }`
abbrev pub late : Function
late = Map (ident (codes "late")) (param (codes "k") ∷ param (codes "v") ∷ []) 1 pairs (emit (var (codes "k")) (call (codes "add") (var (codes "v")) (Round 1)) ∷ [])

-- `partition turning(k: int) { give(add(k, round)); }`
abbrev pub turning : Function
turning = Partition (ident (codes "turning")) (param (codes "k")) (Give 1 (call (codes "add") (var (codes "k")) (Round 1)) ∷ [])

-- `reduce dated(k: int; s: (int), t: (int)) -> (int, int) { emit(k, round); }`
abbrev pub dated : Function
dated = Reduce (ident (codes "dated")) (param (codes "k")) (numbers (codes "s") ∷ numbers (codes "t") ∷ []) 1 pairs (emit (var (codes "k")) (Round 1) ∷ [])

-- `reduce count(k: int; s: (int), t: (int)) -> (int, int) { let n = 0; for (x) in t { set n = add(n, 1); } emit(add(k, 10), n); }`
abbrev pub count : Function
count =
    Reduce (ident (codes "count")) (param (codes "k")) (numbers (codes "s") ∷ numbers (codes "t") ∷ []) 1 pairs
    (Let (ident (codes "n")) (lit 0)
    ∷ for_each (codes "x") (codes "t") (set_to (codes "n") (call (codes "add") (var (codes "n")) (lit 1)))
    ∷ emit (call (codes "add") (var (codes "k")) (lit 10)) (var (codes "n"))
    ∷ [])

-- `reduce share(k: int; r: (int), l: (int)) -> (int, int) { let n = 0; for (t) in l { set n = add(n, 1); } emit(k, 0); for (x) in r { for (u) in l { emit(u, div(mul(x, 85), mul(n, 100))); } } }`
abbrev pub share : Function
share =
    Reduce (ident (codes "share")) (param (codes "k")) (numbers (codes "r") ∷ numbers (codes "l") ∷ []) 1 pairs
    (Let (ident (codes "n")) (lit 0)
    ∷ for_each (codes "t") (codes "l") (set_to (codes "n") (call (codes "add") (var (codes "n")) (lit 1)))
    ∷ emit (var (codes "k")) (lit 0)
    ∷ for_each (codes "x") (codes "r") (for_each (codes "u") (codes "l") (emit (var (codes "u")) (call (codes "div") (call (codes "mul") (var (codes "x")) (lit 85)) (call (codes "mul") (var (codes "n")) (lit 100)))))
    ∷ [])

-- `reduce total(k: int; p: (int)) -> (int, int) { let s = 150000; for (x) in p { set s = add(s, x); } emit(k, s); }`
abbrev pub total : Function
total =
    Reduce (ident (codes "total")) (param (codes "k")) (numbers (codes "p") ∷ []) 1 pairs
    (Let (ident (codes "s")) (lit 150000)
    ∷ for_each (codes "x") (codes "p") (set_to (codes "s") (call (codes "add") (var (codes "s")) (var (codes "x"))))
    ∷ emit (var (codes "k")) (var (codes "s"))
    ∷ [])

-- `distance moved(k: int; a: (int), b: (int)) { let s = 0; for (x) in a { set s = sub(s, x); } for (y) in b { set s = add(s, y); } give(max(s, sub(0, s))); }`
abbrev pub moved : Function
moved =
    Distance (ident (codes "moved")) (param (codes "k")) (numbers (codes "a")) (numbers (codes "b"))
    (Let (ident (codes "s")) (lit 0)
    ∷ for_each (codes "x") (codes "a") (set_to (codes "s") (call (codes "sub") (var (codes "s")) (var (codes "x"))))
    ∷ for_each (codes "y") (codes "b") (set_to (codes "s") (call (codes "add") (var (codes "s")) (var (codes "y"))))
    ∷ Give 1 (call (codes "max") (var (codes "s")) (call (codes "sub") (lit 0) (var (codes "s"))))
    ∷ [])

-- ---- programs

-- ways along links, and the shortest of them
abbrev pub hops : Sketch
hops =
    program Exact at_reducers (codes "start") (table (codes "start") ∷ table (codes "links") ∷ []) []
    (step (input (codes "links") (codes "same") ∷ []) (codes "hop") None
    ∷ step (input (codes "start") (codes "same") ∷ []) (codes "least") None
    ∷ [])

-- one step by a reduce of two streams
abbrev pub one_step : Asked → List Function → InputSketch → List ℕ → Option Ident → Sketch
one_step asked functions source reduce partition = program Exact asked (codes "t") (table (codes "t") ∷ table (codes "x") ∷ []) functions (step (source ∷ []) reduce partition ∷ [])

-- two steps, the first over a table, with these partitions
abbrev pub two_steps : Option Ident → Option Ident → Sketch
two_steps first last =
    program Exact at_reducers (codes "t") (table (codes "t") ∷ table (codes "x") ∷ []) (turning ∷ [])
    (step (input (codes "x") (codes "same") ∷ []) (codes "every") first
    ∷ step [] (codes "least") last
    ∷ [])

-- how many links begin at each key
abbrev pub counted : Sketch
counted = one_step at_reducers (count ∷ []) (input (codes "x") (codes "same")) (codes "count") None

-- a table whose records change from round to round
abbrev pub stamped : Sketch
stamped = one_step of_inputs (late ∷ []) (input (codes "t") (codes "late")) (codes "least") None

-- a table that is read in round 2
abbrev pub added_once : Sketch
added_once = one_step no_cache [] (input_once (codes "x") 2 (codes "same")) (codes "least") None

-- ranks of pages
abbrev pub ranks : Sketch
ranks =
    program (Below (number 1400000) (ident (codes "moved"))) at_reducers (codes "ranks") (table (codes "ranks") ∷ table (codes "links") ∷ []) (share ∷ total ∷ moved ∷ [])
    (step (input (codes "links") (codes "same") ∷ []) (codes "share") None
    ∷ step [] (codes "total") None
    ∷ [])
