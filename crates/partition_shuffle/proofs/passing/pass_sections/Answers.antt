use Rattle.std.proofs.Common.{Err, sym, ◌∙◌, arith}
use Rattle.partition_shuffle.specs.steps.Sections.{Passes, behind, section}
use Rattle.record_blocks.specs.steps.Decoders.{many}
use Rattle.partition_shuffle.proofs.Behind.{all_passed, none_passed, one_passed}
use Rattle.partition_shuffle.proofs.Exits.{exits}
use Rattle.partition_shuffle.proofs.passing.pass_sections.Goals as goal

pub returns-in_err-pass_section : goal.returns-in_err-pass_section
returns-in_err-pass_section c =
    let p = section c.args.schema.now in
    exits (λ r. Passes (behind (many p c.args.count c.args.cursor.now)) r c.pass_section.new.cursor) (λ f. Passes (behind (p c.sections.cursor)) (Err f) c.pass_section.new.cursor) c.from_residual.result c.in_err-pass_section.field-0.0 c.from_residual.ensures.1 c.in_err-pass_section.ensures tt
    (λ none. sym c.sections.invariant ∙ none_passed p c.sections.left c.sections.cursor c.sections-test.true none)

pub sections-preserved : goal.sections-preserved
sections-preserved c = sym (one_passed (section c.args.schema.now) c.sections.left c.sections.cursor c.pass_section.new.cursor c.sections-test.true c.in_ok-pass_section.ensures) ∙ c.sections.invariant

pub returns : goal.returns
returns c = sym c.sections.invariant ∙ all_passed (section c.args.schema.now) c.sections.left c.sections.cursor (omega (arith, c.sections-test.false))
