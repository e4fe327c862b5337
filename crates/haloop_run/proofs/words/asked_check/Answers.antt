use Rattle.std.proofs.Common.{rules, ◌≡◌, ap, ◌∙◌, codes}
use Rattle.haloop_run.specs.Words.{texts}
use Rattle.haloop_run.proofs.WordLaws.{two}
use Rattle.haloop_run.proofs.words.asked_check.Goals as goal

pub returns-in-len2-clause-found : goal.returns-in-len2-clause-found
returns-in-len2-clause-found c =
    let ws = two c.args.words.now c.word-item.result c.program-item.result c.in-len2.len_at_least c.in-len2.len_below c.word-item.is c.program-item.is in
    let check : c.as_str.result.now ≡ codes "check" = search rules in
    let word = c.as_str.ensures.value in
    let program = c.as_str-in-len2.ensures.value in
    record { spelled = ap texts ws ∙ cc; named = search rules }
