use Rattle.std.proofs.Common.{◌≡◌, ◌++◌, drop}
use Rattle.program_tokens.specs.Tokens.{escaped}
use Rattle.program_tokens.proofs.print.append_quoted.Given as goal

abbrev pub invariant-bytes : goal.invariant-bytes
invariant-bytes l = l.out.items ++ escaped (drop l.byte-index l.text) ≡ l.initial.out.items ++ escaped l.text
