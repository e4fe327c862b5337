use Rattle.std.proofs.Common.{rules, ◌≡◌, ap, ◌∙◌, codes, Some, None}
use Rattle.haloop_run.specs.Words.{texts}
use Rattle.haloop_run.proofs.WordLaws.{three, four, asked_for}
use Rattle.haloop_run.proofs.words.asked_command.Goals as goal

pub returns-in-len3-clause-found : goal.returns-in-len3-clause-found
returns-in-len3-clause-found c =
    let ws = three c.args.words.now c.word-item.result c.program-item.result c.out-item.result c.in-len3.len_at_least c.in-len3.len_below c.word-item.is c.program-item.is c.out-item.is in
    let plain : c.as_str.result.now ≡ codes "plain" = search rules in
    let word = c.as_str.ensures.value in
    let program = c.as_str-in-len3.ensures.value in
    let out = c.as_str-in-len3-2.ensures.value in
    asked_for (texts c.args.words.now) c.as_str-in-len3.result.now None c.as_str-in-len3-2.result.now c.named.result (ap texts ws ∙ cc) c.named.ensures

pub returns-in-len4-clause-found : goal.returns-in-len4-clause-found
returns-in-len4-clause-found c =
    let ws = four c.args.words.now c.word-item-then-words-lt5.result c.program-item-then-words-lt5.result c.schedule-item.result c.out-item-then-words-lt5.result c.in-len4.len_at_least c.in-len4.len_below c.word-item-then-words-lt5.is c.program-item-then-words-lt5.is c.schedule-item.is c.out-item-then-words-lt5.is in
    let run : c.as_str-then-words-lt5.result.now ≡ codes "run" = search rules in
    let word = c.as_str-then-words-lt5.ensures.value in
    let program = c.as_str-in-len4.ensures.value in
    let schedule = c.as_str-in-len4-2.ensures.value in
    let out = c.as_str-in-len4-3.ensures.value in
    asked_for (texts c.args.words.now) c.as_str-in-len4.result.now (Some c.as_str-in-len4-2.result.now) c.as_str-in-len4-3.result.now c.named-in-len4.result (ap texts ws ∙ cc) c.named-in-len4.ensures
