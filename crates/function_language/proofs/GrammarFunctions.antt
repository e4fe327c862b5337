-- The readers of functions are right.
use Rattle.std.proofs.Common.{Bool, Err, List, [], ap, append_assoc, codes, false, inl, inr, map, refl, sym, true, ℕ, ◌++◌, ◌||◌, ◌∙◌, ◌∷◌, ◌≡◌}
use Rattle.std.specs.Str.{bytes_eq}
use Rattle.hal_base.specs.declared.value.Kind.{Kind}
use Rattle.program_tokens.specs.steps.Front.{is_plain, sees}
use Rattle.program_tokens.specs.declared.token.Token.{Token}
use Rattle.program_tokens.specs.steps.Parsers.{expect, separated, ◌>>◌}
use Rattle.program_tokens.specs.Pieces.{Piece, end, name, plain}
use Rattle.function_language.specs.steps.Reading.{begins_function, body, compared, distance_function, function, functions, head, map_function, only_functions, param, partition_function, reduce_function, stream, tail}
use Rattle.function_language.specs.Spelled.{block_pieces, function_pieces, functions_pieces, out_pieces, param_pieces, stream_pieces}
use Rattle.program_tokens.specs.Pieces.{some_comma_separated}
use Rattle.function_language.specs.declared.function.Head.{Head}
use Rattle.function_language.specs.declared.function.Tail.{Tail}
use Rattle.function_language.specs.declared.tree.Function.{Function}
use Rattle.function_language.specs.declared.tree.Function.TheVariants as a_function
use Rattle.program_tokens.specs.declared.token.Ident.{Ident}
use Rattle.function_language.specs.declared.tree.Param.{Param}
use Rattle.function_language.specs.declared.tree.Row.{Row}
use Rattle.function_language.specs.declared.tree.Statement.{Statement}
use Rattle.function_language.specs.declared.tree.Stream.{Stream}
use Rattle.program_tokens.proofs.Right.{Exactly, Right, Spells, respelled}
use Rattle.program_tokens.proofs.Choices.{Either, Not}
use Rattle.program_tokens.proofs.Firsts.{Begins, Free, Stopping, begins_follows, either_begins}
use Rattle.program_tokens.proofs.OneToken.{end_right, expect_line_right}
use Rattle.program_tokens.proofs.Parts.{Made, exactly, free_part, last_part, made_begins, part, word_then}
use Rattle.program_tokens.proofs.Avoiding.{Avoids, Unseen, eat_right, passed, plain_avoids, refused_unseen}
use Rattle.program_tokens.proofs.Many.{separated_right, while_from_right}
use Rattle.function_language.proofs.GrammarSignatures.{named_before, param_right, stream_right}
use Rattle.function_language.proofs.Before.{free_before, unseen_before}
use Rattle.program_tokens.proofs.KindReaders.{kinds_right}
use Rattle.function_language.proofs.GrammarStatements.{block_right}

-- ---- the kinds of functions

-- a parameter is something
param_some : (p : Param) → param_pieces p ≡ [] → ⊥
param_some p e = cc

-- a stream is something
stream_some : (s : Stream) → stream_pieces s ≡ [] → ⊥
stream_some s e = cc

-- parameters
params_right : Right (Exactly (λ ps. some_comma_separated (map param_pieces ps))) (Unseen (codes ",")) (separated param)
params_right = separated_right param_pieces Free (Unseen (codes ",")) param (param_right Free) param_some (λ token tokens fits. tt) (λ rest stop. tt) (λ rest stop. stop)

-- streams
streams_right : Right (Exactly (λ ss. some_comma_separated (map stream_pieces ss))) (Unseen (codes ",")) (separated stream)
streams_right = separated_right stream_pieces Free (Unseen (codes ",")) stream (stream_right Free) stream_some (λ token tokens fits. tt) (λ rest stop. tt) (λ rest stop. stop)

-- how a name and a key are spelled, with the marks behind them
abbrev head_pieces : List ℕ → Head → List Piece
head_pieces mark h = name h.name ∷ plain (codes "(") ∷ (param_pieces h.key ++ plain mark ∷ [])

-- they are read right
head_right : (mark : List ℕ) → Right (Exactly (head_pieces mark)) Free (head mark)
unfolding head
head_right mark = exactly (head_pieces mark) (λ h. (h.name, h.key)) (λ h. refl) (λ c. refl)
    (free_part {make = λ (c : Ident × Param). record { name = c.0; key = c.1 }} (named_before (codes "(") Free) (λ i. last_part (λ key. record { name = i; key = key }) (free_before mark param_pieces Free param (param_right Free))))

-- a body
body_right : Right (Exactly (block_pieces 32)) Free body
unfolding body
body_right = block_right 32 Free

-- how what is emitted, and the body, are spelled
abbrev tail_pieces : Tail → List Piece
tail_pieces t = out_pieces t.arrow t.out t.body

-- they are read right
tail_right : Right (Exactly tail_pieces) Free tail
unfolding tail
tail_right = exactly tail_pieces (λ t. (t.arrow, (t.out.kinds, t.body))) (λ t. refl) (λ c. refl)
    (free_part {make = λ (c : ℕ × (List Kind × List Statement)). record { arrow = c.0; out = record { kinds = c.1.0 }; body = c.1.1 }} (expect_line_right (codes "->") Free)
    (λ arrow. free_part (kinds_right Free) (λ out. last_part (λ body. record { arrow = arrow; out = record { kinds = out }; body = body }) body_right)))

-- a `map`
abbrev Mapped : Spells Function
Mapped = Made {C = Ident × (List Param × Tail)} (λ c. a_function.Map c.0 c.1.0 c.1.1.arrow c.1.1.out c.1.1.body)
    (λ c. plain (codes "map") ∷ name c.0 ∷ plain (codes "(") ∷ ((some_comma_separated (map param_pieces c.1.0) ++ plain (codes ")") ∷ []) ++ tail_pieces c.1.1))

-- a `map` is read right
map_right : Right Mapped Free (expect (codes "map") >> map_function)
unfolding map_function
map_right = word_then (codes "map") (free_part {make = λ (c : Ident × (List Param × Tail)). a_function.Map c.0 c.1.0 c.1.1.arrow c.1.1.out c.1.1.body} (named_before (codes "(") Free)
    (λ i. free_part {make = λ (c : List Param × Tail). a_function.Map i c.0 c.1.arrow c.1.out c.1.body} (unseen_before (codes ")") (λ ps. some_comma_separated (map param_pieces ps)) Free (separated param) (codes ",") refl params_right)
    (λ ps. last_part (λ t. a_function.Map i ps t.arrow t.out t.body) tail_right)))

-- a `reduce`
abbrev Reduced : Spells Function
Reduced = Made {C = Head × (List Stream × Tail)} (λ c. a_function.Reduce c.0.name c.0.key c.1.0 c.1.1.arrow c.1.1.out c.1.1.body)
    (λ c. plain (codes "reduce") ∷ (head_pieces (codes ";") c.0 ++ ((some_comma_separated (map stream_pieces c.1.0) ++ plain (codes ")") ∷ []) ++ tail_pieces c.1.1)))

-- a `reduce` is read right
reduce_right : Right Reduced Free (expect (codes "reduce") >> reduce_function)
unfolding reduce_function
reduce_right = word_then (codes "reduce") (free_part {make = λ (c : Head × (List Stream × Tail)). a_function.Reduce c.0.name c.0.key c.1.0 c.1.1.arrow c.1.1.out c.1.1.body} (head_right (codes ";"))
    (λ head. free_part {make = λ (c : List Stream × Tail). a_function.Reduce head.name head.key c.0 c.1.arrow c.1.out c.1.body} (unseen_before (codes ")") (λ ss. some_comma_separated (map stream_pieces ss)) Free (separated stream) (codes ",") refl streams_right)
    (λ ss. last_part (λ t. a_function.Reduce head.name head.key ss t.arrow t.out t.body) tail_right)))

-- how the two streams of a distance are spelled
abbrev compared_pieces : Stream × Stream → List Piece
compared_pieces c = (stream_pieces c.0 ++ plain (codes ",") ∷ []) ++ (stream_pieces c.1 ++ plain (codes ")") ∷ [])

-- they are read right
compared_right : Right (Exactly compared_pieces) Free compared
unfolding compared
compared_right = exactly compared_pieces (λ c. c) (λ c. refl) (λ c. refl)
    (free_part {make = λ (c : Stream × Stream). c} (free_before (codes ",") stream_pieces Free stream (stream_right Free)) (λ old. last_part (λ new. (old, new)) (free_before (codes ")") stream_pieces Free stream (stream_right Free))))

-- a `distance`
abbrev Measured : Spells Function
Measured = Made {C = Head × ((Stream × Stream) × List Statement)} (λ c. a_function.Distance c.0.name c.0.key c.1.0.0 c.1.0.1 c.1.1)
    (λ c. plain (codes "distance") ∷ (head_pieces (codes ";") c.0 ++ (compared_pieces c.1.0 ++ block_pieces 32 c.1.1)))

-- a `distance` is read right
distance_right : Right Measured Free (expect (codes "distance") >> distance_function)
unfolding distance_function
distance_right = word_then (codes "distance") (free_part {make = λ (c : Head × ((Stream × Stream) × List Statement)). a_function.Distance c.0.name c.0.key c.1.0.0 c.1.0.1 c.1.1} (head_right (codes ";"))
    (λ head. free_part {make = λ (c : (Stream × Stream) × List Statement). a_function.Distance head.name head.key c.0.0 c.0.1 c.1} compared_right
    (λ streams. last_part (λ body. a_function.Distance head.name head.key streams.0 streams.1 body) body_right)))

-- a `partition`
abbrev Parted : Spells Function
Parted = Made {C = Head × List Statement} (λ c. a_function.Partition c.0.name c.0.key c.1)
    (λ c. plain (codes "partition") ∷ (head_pieces (codes ")") c.0 ++ block_pieces 32 c.1))

-- a `partition` is read right
partition_right : Right Parted Free (expect (codes "partition") >> partition_function)
unfolding partition_function
partition_right = word_then (codes "partition") (free_part {make = λ (c : Head × List Statement). a_function.Partition c.0.name c.0.key c.1} (head_right (codes ")"))
    (λ head. last_part (λ body. a_function.Partition head.name head.key body) body_right))

-- ---- the choice between them

-- a `distance` or a `partition`
abbrev FromDistance : Spells Function
FromDistance = Either Measured Parted

-- these or a `reduce`
abbrev FromReduce : Spells Function
FromReduce = Either Reduced FromDistance

-- these or a `map`
abbrev Functions : Spells Function
Functions = Either Mapped FromReduce

-- neither begins with another word
from_distance_begins : (word : List ℕ) → bytes_eq (codes "distance") word ≡ false → bytes_eq (codes "partition") word ≡ false → Begins (Avoids word) FromDistance
from_distance_begins word d p = either_begins (Avoids word) (made_begins (Avoids word) (λ c. plain_avoids (codes "distance") word d)) (made_begins (Avoids word) (λ c. plain_avoids (codes "partition") word p))

-- none of these begins with another word
from_reduce_begins : (word : List ℕ) → bytes_eq (codes "reduce") word ≡ false → bytes_eq (codes "distance") word ≡ false → bytes_eq (codes "partition") word ≡ false → Begins (Avoids word) FromReduce
from_reduce_begins word r d p = either_begins (Avoids word) (made_begins (Avoids word) (λ c. plain_avoids (codes "reduce") word r)) (from_distance_begins word d p)

-- one of the kinds of functions is read right
chosen_right : Right Functions Free function
unfolding function
chosen_right =
    eat_right (codes "map") {one = Mapped} {other = FromReduce} _ _ map_right
    (eat_right (codes "reduce") {one = Reduced} {other = FromDistance} _ _ reduce_right
    (eat_right (codes "distance") {one = Measured} {other = Parted} _ _ distance_right partition_right
    (begins_follows Parted Free (Unseen (codes "distance")) (made_begins (Avoids (codes "distance")) (λ c. plain_avoids (codes "partition") (codes "distance") refl))))
    (begins_follows FromDistance Free (Unseen (codes "reduce")) (from_distance_begins (codes "reduce") refl refl)))
    (begins_follows FromReduce Free (Unseen (codes "map")) (from_reduce_begins (codes "map") refl refl refl))

-- ---- as functions are spelled

-- a part, a mark and another part with the mark behind it, before others: each part with its own mark
regrouped : (one : List Piece) (mark : List ℕ) (next : List Piece) (close : List ℕ) (others : List Piece)
    → ((one ++ plain mark ∷ next) ++ plain close ∷ []) ++ others ≡ (one ++ plain mark ∷ []) ++ ((next ++ plain close ∷ []) ++ others)
regrouped one mark next close others =
    append_assoc (one ++ plain mark ∷ next) (plain close ∷ []) others
    ∙ append_assoc one (plain mark ∷ next) (plain close ∷ others)
    ∙ ap (λ pieces. one ++ (plain mark ∷ pieces)) (sym (append_assoc next (plain close ∷ []) others))
    ∙ sym (append_assoc one (plain mark ∷ []) ((next ++ plain close ∷ []) ++ others))

-- a `reduce`, as its reader takes it apart
reduce_spelled : (i : Ident) (key : Param) (ss : List Stream) (arrow : ℕ) (out : Row) (body : List Statement) → function_pieces (a_function.Reduce i key ss arrow out body)
    ≡ plain (codes "reduce") ∷ (head_pieces (codes ";") (record { name = i; key = key }) ++ ((some_comma_separated (map stream_pieces ss) ++ plain (codes ")") ∷ []) ++ out_pieces arrow out body))
reduce_spelled i key ss arrow out body = ap (λ pieces. plain (codes "reduce") ∷ name i ∷ plain (codes "(") ∷ pieces) (regrouped (param_pieces key) (codes ";") (some_comma_separated (map stream_pieces ss)) (codes ")") (out_pieces arrow out body))

-- a `distance`, as its reader takes it apart
distance_spelled : (i : Ident) (key : Param) (old new : Stream) (body : List Statement) → function_pieces (a_function.Distance i key old new body)
    ≡ plain (codes "distance") ∷ (head_pieces (codes ";") (record { name = i; key = key }) ++ (compared_pieces (old, new) ++ block_pieces 32 body))
distance_spelled i key old new body = ap (λ pieces. plain (codes "distance") ∷ name i ∷ plain (codes "(") ∷ pieces) (
    regrouped (param_pieces key ++ plain (codes ";") ∷ stream_pieces old) (codes ",") (stream_pieces new) (codes ")") (block_pieces 32 body)
    ∙ regrouped (param_pieces key) (codes ";") (stream_pieces old) (codes ",") ((stream_pieces new ++ plain (codes ")") ∷ []) ++ block_pieces 32 body)
    ∙ ap (λ pieces. (param_pieces key ++ plain (codes ";") ∷ []) ++ pieces) (sym (append_assoc (stream_pieces old ++ plain (codes ",") ∷ []) (stream_pieces new ++ plain (codes ")") ∷ []) (block_pieces 32 body))))

-- one of the kinds of functions is a function
function_to : (f : Function) (pieces : List Piece) → Functions f pieces → pieces ≡ function_pieces f
function_to f pieces (inl m) = m.as_parts ∙ ap function_pieces (sym m.made)
function_to f pieces (inr (inl m)) = m.as_parts ∙ sym (reduce_spelled m.parts.0.name m.parts.0.key m.parts.1.0 m.parts.1.1.arrow m.parts.1.1.out m.parts.1.1.body) ∙ ap function_pieces (sym m.made)
function_to f pieces (inr (inr (inl m))) = m.as_parts ∙ sym (distance_spelled m.parts.0.name m.parts.0.key m.parts.1.0.0 m.parts.1.0.1 m.parts.1.1) ∙ ap function_pieces (sym m.made)
function_to f pieces (inr (inr (inr m))) = m.as_parts ∙ ap function_pieces (sym m.made)

-- a function is one of the kinds of functions
function_from : (f : Function) (pieces : List Piece) → pieces ≡ function_pieces f → Functions f pieces
function_from (a_function.Map i ps arrow out body) pieces e = inl (record { parts = (i, (ps, record { arrow = arrow; out = out; body = body })); made = refl; as_parts = e })
function_from (a_function.Reduce i key ss arrow out body) pieces e = inr (inl (record { parts = (record { name = i; key = key }, (ss, record { arrow = arrow; out = out; body = body })); made = refl; as_parts = e ∙ reduce_spelled i key ss arrow out body }))
function_from (a_function.Distance i key old new body) pieces e = inr (inr (inl (record { parts = (record { name = i; key = key }, ((old, new), body)); made = refl; as_parts = e ∙ distance_spelled i key old new body })))
function_from (a_function.Partition i key body) pieces e = inr (inr (inr (record { parts = (record { name = i; key = key }, body); made = refl; as_parts = e })))

-- a function
pub function_right : Right (Exactly function_pieces) Free function
function_right ts = respelled function_to function_from (chosen_right ts)

-- ---- functions one after another

-- where one or the other is not so, neither is
neither : (a b : Bool) → (a || b) ≡ false → (a ≡ false) × (b ≡ false)
neither false b e = (refl, e)
neither true b e = absurd cc

-- where none begins, none is read
pub function_refused : (ts : List Token) → begins_function ts ≡ false → function ts ≡ Err ts
unfolding function
function_refused ts e =
    let none = neither (sees (codes "map") ts || sees (codes "reduce") ts || sees (codes "distance") ts) (sees (codes "partition") ts) e in
    let two = neither (sees (codes "map") ts || sees (codes "reduce") ts) (sees (codes "distance") ts) none.0 in
    let one = neither (sees (codes "map") ts) (sees (codes "reduce") ts) two.0 in
    passed (codes "map") map_function _ ts one.0 ∙ passed (codes "reduce") reduce_function _ ts one.1 ∙ passed (codes "distance") distance_function _ ts two.1
    ∙ refused_unseen (codes "partition") partition_function ts none.1

-- a function is something
pub function_some : (f : Function) → function_pieces f ≡ [] → ⊥
function_some (a_function.Map i ps arrow out body) e = cc
function_some (a_function.Reduce i key ss arrow out body) e = cc
function_some (a_function.Distance i key before after body) e = cc
function_some (a_function.Partition i key body) e = cc

-- functions
pub functions_right : Right (Exactly functions_pieces) (λ ts. begins_function ts ≡ false) functions
functions_right = while_from_right function_pieces begins_function function function_right function_some function_refused

-- the end begins no function
end_begins_none : Stopping (Not begins_function) end
end_begins_none token tokens fits =
    ap (λ l. is_plain (codes "map") l || is_plain (codes "reduce") l || is_plain (codes "distance") l || is_plain (codes "partition") l) fits

-- functions alone
pub only_functions_right : Right (Exactly (λ fs. functions_pieces fs ++ end ∷ [])) Free only_functions
unfolding only_functions
only_functions_right = exactly (λ fs. functions_pieces fs ++ end ∷ []) (λ fs. (fs, tt)) (λ fs. refl) (λ c. refl)
    (part {make = λ (c : List Function × Unit {0}). c.0} functions_right (λ fs. last_part (λ _. fs) (end_right Free))
    (λ fs. begins_follows _ Free (Not begins_function) (made_begins (Stopping (Not begins_function)) (λ _. end_begins_none))))
