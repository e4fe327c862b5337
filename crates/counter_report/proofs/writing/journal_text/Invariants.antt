use Rattle.std.proofs.Common.{◌≡◌, ◌++◌, drop}
use Rattle.counter_report.specs.Journals.{journal_text}
use Rattle.counter_report.proofs.writing.journal_text.Given as goal

abbrev pub invariant-entries : goal.invariant-entries
invariant-entries l = l.text.items ++ journal_text (drop l.entry-index l.entry-items) ≡ journal_text l.entry-items
