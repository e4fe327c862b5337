use Rattle.std.proofs.Common.{◌≡◌, true, false, sym, ap, ◌∙◌}
use Rattle.std.specs.Int.{w64}
use Rattle.std.specs.Fmt.{signed_decimal}
use Rattle.std.proofs.lemmas.Fmt.{IsAscii-signed}
use Rattle.std.proofs.lemmas.Str.{IsUtf8-from_ascii}
use Rattle.std.proofs.lemmas.Int.{to_z-of_z}
use Rattle.hal_base.specs.steps.Numbers.{canonical_front}
use Rattle.hal_base.proofs.NumberText.{spelled, canonical, parsed}
use Rattle.hal_base.proofs.number.read_number.Goals as goal

pub returns-then-not-may_be_canonical-clause-only : goal.returns-then-not-may_be_canonical-clause-only
returns-then-not-may_be_canonical-clause-only c = λ n fits is.
    let e : true ≡ false = sym (canonical n fits) ∙ ap canonical_front (sym is) ∙ sym c.if-not-may_be_canonical.ensures in cc

pub returns-in-Ok-parse-clause-found : goal.returns-in-Ok-parse-clause-found
returns-in-Ok-parse-clause-found c =
    let text = c.in-Ok.ensures.cases.0 in
    let p = c.in-Ok-parse.ensures.value.0 in
    let s = spelled _ c.in-Ok-parse.n (rw text (sym c.if-not-may_be_canonical.ensures)) p in
    sym text ∙ s ∙ ap signed_decimal (sym (to_z-of_z w64 c.in-Ok-parse.n (rw p.1 p.0.1)))

pub returns-in-Err-parse-clause-only : goal.returns-in-Err-parse-clause-only
returns-in-Err-parse-clause-only c = λ n fits is. parsed _ n fits (c.in-Ok.ensures.cases.0 ∙ is) c.in-Err-parse.ensures.value.0

pub returns-in-Err-clause-only : goal.returns-in-Err-clause-only
returns-in-Err-clause-only c = λ n fits is. c.in-Err.ensures.cases.0 (rw is (IsUtf8-from_ascii (signed_decimal n) (IsAscii-signed n fits.sfits)))
