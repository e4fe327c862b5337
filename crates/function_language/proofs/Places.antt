-- What was read can be spelled.
use Rattle.std.proofs.Common.{◌≡◌, Ok, List, subst}
use Rattle.std.specs.List.{AllByRecursion}
use Rattle.program_tokens.specs.declared.token.Token.{Token}
use Rattle.program_tokens.specs.steps.Front.{AreSpelled}
use Rattle.function_language.specs.declared.tree.Function.{Function}
use Rattle.function_language.specs.steps.Reading.{functions}
use Rattle.function_language.specs.Spelled.{CanBeSpelled}
use Rattle.program_tokens.specs.Pieces.{IsPlace}
use Rattle.program_tokens.proofs.Right.{right_read}
use Rattle.function_language.proofs.GrammarFunctions.{functions_right}
use Rattle.program_tokens.proofs.Places.{all_front, stand_places}

-- functions that were read of such tokens can be spelled
pub read_spelled : (ts : List Token) (found : List Function) (rest : List Token) → AreSpelled ts → functions ts ≡ Ok (found, rest) → CanBeSpelled found
read_spelled ts found rest s e =
    let w = right_read functions_right ts found rest e in
    subst (AllByRecursion IsPlace) w.spelled (stand_places w.pieces w.front w.stands (all_front _ w.front rest (subst AreSpelled w.split s)))
