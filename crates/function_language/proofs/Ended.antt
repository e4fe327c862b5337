-- Functions alone, to the end of a text.
use Rattle.std.proofs.Common.{◌≡◌, ◌≢◌, ℕ, true, false, Ok, Err, List, refl}
use Rattle.program_tokens.specs.declared.token.Token.{Token}
use Rattle.program_tokens.specs.steps.Front.{at_end, line_of}
use Rattle.program_tokens.specs.Tokens.{AreTokensOf}
use Rattle.program_tokens.proofs.Lists.{one_list}
use Rattle.function_language.specs.declared.tree.Function.{Function}
use Rattle.program_tokens.specs.declared.fault.SyntaxFault.{SyntaxFault}
use Rattle.program_tokens.specs.declared.fault.SyntaxFault.TheVariants.{At, Memory}
use Rattle.function_language.specs.steps.Reading.{functions, only_functions}
use Rattle.function_language.specs.Spelled.{functions_pieces}
use Rattle.program_tokens.specs.Texts.{HasFaultAt, IsOfOneTree, IsTextOf, Refuses}
use Rattle.function_language.specs.Spelled.{only_functions_pieces}
use Rattle.function_language.proofs.GrammarFunctions.{only_functions_right}
use Rattle.function_language.proofs.Inner.{functions_inner}
use Rattle.program_tokens.proofs.Whole.{one_tree}
use Rattle.program_tokens.proofs.Ended.{ended_read, fault_refused, unended_refused}

-- what was read, behind which the end comes, are the functions of the text
pub only_functions_read : (text : List ℕ) (ts mid : List Token) (found : List Function) → AreTokensOf text ts → functions ts ≡ Ok (found, mid) → at_end mid ≡ true → IsTextOf only_functions_pieces text found
unfolding only_functions
only_functions_read = ended_read functions_pieces (λ fs. refl) functions_inner functions only_functions_right

-- where the end was to come and does not, the text has its fault
pub only_functions_unended : (text : List ℕ) (ts mid : List Token) (found : List Function) → AreTokensOf text ts → functions ts ≡ Ok (found, mid) → at_end mid ≡ false → HasFaultAt only_functions_pieces text (line_of mid)
unfolding only_functions
only_functions_unended = unended_refused functions_pieces (λ fs. refl) functions_inner functions only_functions_right

-- so it has where a fault came before
pub functions_refused : (text : List ℕ) (ts left : List Token) (f : SyntaxFault) → AreTokensOf text ts → (f ≢ Memory → (functions ts ≡ Err left) × (f ≡ At (line_of left))) → Refuses only_functions_pieces text f
unfolding only_functions
functions_refused = fault_refused functions_pieces (λ fs. refl) functions_inner functions only_functions_right

-- a text is that of one list of functions
pub functions_are_one : IsOfOneTree only_functions_pieces
functions_are_one = one_tree functions_pieces (λ fs. refl) functions_inner only_functions_right one_list
