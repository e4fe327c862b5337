use Rattle.std.proofs.Common.{◌≡◌, ◌-◌, ℕ, List, [], None, Some, Option, Err, sym, ◌∙◌, arith}
use Rattle.hal_base.specs.declared.record.Record.{Record}
use Rattle.record_blocks.specs.steps.Decoders.{Decodes, many}
use Rattle.record_blocks.proofs.OneList.{read_as}
use Rattle.partition_shuffle.specs.steps.Sections.{Passes, PicksAmong, behind, section}
use Rattle.partition_shuffle.proofs.Exits.{exits}
use Rattle.partition_shuffle.proofs.Picking.{is_part, none_before, none_behind, none_here, not_all}
use Rattle.partition_shuffle.proofs.reading.pick.Goals as goal

missing : (read : Option (List (List Record) × List ℕ)) → read ≡ None → (parts : List (List Record)) → read ≡ Some (parts, []) → ⊥
missing read e parts f = let c : None ≡ read_as parts [] = sym e ∙ f in cc

pub returns-in_err-pass_sections : goal.returns-in_err-pass_sections
returns-in_err-pass_sections c =
    let p = section c.args.schema.now in
    let all = many p c.args.count c.args.cursor.now in
    exits (λ r. PicksAmong all c.args.part r) (λ f. Passes (behind (many p c.args.part c.args.cursor.now)) (Err f) c.pass_sections.new.cursor) c.from_residual.result c.in_err-pass_sections.field-0.0 c.from_residual.ensures.1 c.in_err-pass_sections.ensures tt
    (λ none. missing all (none_before p c.args.part c.args.count c.args.cursor.now c.requires none))

pub returns-in_err-rows : goal.returns-in_err-rows
returns-in_err-rows c =
    let p = section c.args.schema.now in
    let all = many p c.args.count c.args.cursor.now in
    exits (λ r. PicksAmong all c.args.part r) (λ f. Decodes (p c.pass_sections.new.cursor) (Err f) c.read_section.new.cursor) c.from_residual-in_err-rows.result c.in_err-rows.field-0.0 c.from_residual-in_err-rows.ensures.1 c.in_err-rows.ensures tt
    (λ none. missing all (none_here p c.args.part c.args.count c.args.cursor.now c.requires c.pass_sections.new.cursor c.in_ok-pass_sections.ensures none))

pub returns-in_err-pass_sections-2 : goal.returns-in_err-pass_sections-2
returns-in_err-pass_sections-2 c =
    let p = section c.args.schema.now in
    let all = many p c.args.count c.args.cursor.now in
    exits (λ r. PicksAmong all c.args.part r) (λ f. Passes (behind (many p (c.args.count - c.args.part - 1) c.read_section.new.cursor)) (Err f) c.pass_sections-2.new.cursor) c.from_residual-in_err-pass_sections-2.result c.in_err-pass_sections-2.field-0.0 c.from_residual-in_err-pass_sections-2.ensures.1 c.in_err-pass_sections-2.ensures tt
    (λ none. missing all (none_behind p c.args.part c.args.count c.args.cursor.now c.requires c.pass_sections.new.cursor c.in_ok-pass_sections.ensures c.in_ok-rows.rows c.read_section.new.cursor c.in_ok-rows.ensures none))

pub returns-then-len-gt0 : goal.returns-then-len-gt0
returns-then-len-gt0 c = not_all (section c.args.schema.now) c.args.part c.args.count c.args.cursor.now c.requires c.pass_sections.new.cursor c.in_ok-pass_sections.ensures c.in_ok-rows.rows c.read_section.new.cursor c.in_ok-rows.ensures c.pass_sections-2.new.cursor c.in_ok-pass_sections-2.ensures (omega (arith, c.len.ensures, c.if-len-gt0.true))

pub returns : goal.returns
returns c = is_part (section c.args.schema.now) c.args.part c.args.count c.args.cursor.now c.requires c.pass_sections.new.cursor c.in_ok-pass_sections.ensures c.in_ok-rows.rows c.read_section.new.cursor c.in_ok-rows.ensures c.pass_sections-2.new.cursor c.in_ok-pass_sections-2.ensures (omega (arith, c.len.ensures, c.if-len-gt0.false))
