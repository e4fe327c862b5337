use Rattle.std.proofs.Common.{◌≡◌, arith}
use Rattle.std.specs.Prelude.{codes}
use Rattle.std.proofs.lemmas.Slice.Eq.{text_from_reads}
use Rattle.schedule_text.specs.Words.{setting_named}
use Rattle.schedule_text.proofs.words.setting_named.Goals as goal

pub returns-in-copies : goal.returns-in-copies
unfolding setting_named
returns-in-copies c =
    let is : c.args.word.now ≡ codes "copies" = text_from_reads _ _ (omega arith) (omega arith, (omega arith, (omega arith, (omega arith, (omega arith, (omega arith, tt)))))) in
    rw is

pub returns-in-attempts : goal.returns-in-attempts
unfolding setting_named
returns-in-attempts c =
    let is : c.args.word.now ≡ codes "attempts" = text_from_reads _ _ (omega arith) (omega arith, (omega arith, (omega arith, (omega arith, (omega arith, (omega arith, (omega arith, (omega arith, tt)))))))) in
    rw is
