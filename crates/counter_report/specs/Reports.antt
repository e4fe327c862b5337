-- The text of a report.
use Rattle.std.specs.Prelude.{ℕ, List, [], ◌∷◌, ◌++◌, codes, decimal}
use Rattle.std.specs.List.{flat_map}
use Rattle.counter_report.specs.declared.report.End.{End}
use Rattle.counter_report.specs.declared.report.End.TheVariants.{Fixpoint, Close, Limit, Unended}
use Rattle.counter_report.specs.declared.report.Report.{Report}

-- the word of an end
abbrev pub ending_text : End → List ℕ
ending_text Fixpoint = codes "fixpoint"
ending_text Close = codes "close"
ending_text Limit = codes "limit"
ending_text Unended = codes "open"

-- how a run ended: each time a name, and a number or a word
abbrev pub outcome : Report → List (List ℕ × List ℕ)
outcome report = (codes "rounds", decimal report.rounds) ∷ (codes "end", ending_text report.end) ∷ []

-- how many attempts committed or failed
abbrev pub attempts : Report → List (List ℕ × List ℕ)
attempts report =
    (codes "maps", decimal report.maps)
    ∷ (codes "reduces", decimal report.reduces)
    ∷ (codes "tests", decimal report.tests)
    ∷ (codes "fails", decimal report.fails)
    ∷ []

-- how many attempts were lost otherwise, how many events were skipped, and how many copies struck
abbrev pub losses : Report → List (List ℕ × List ℕ)
losses report =
    (codes "kills", decimal report.kills)
    ∷ (codes "starved", decimal report.starved)
    ∷ (codes "dropped", decimal report.dropped)
    ∷ (codes "skipped", decimal report.skipped)
    ∷ (codes "struck", decimal report.struck)
    ∷ []

-- how many files and caches commits read
abbrev pub reads : Report → List (List ℕ × List ℕ)
reads report =
    (codes "local", decimal report.local)
    ∷ (codes "remote", decimal report.remote)
    ∷ (codes "ric", decimal report.ric)
    ∷ (codes "mic", decimal report.mic)
    ∷ (codes "roc", decimal report.roc)
    ∷ []

-- a name and a text in a line, with one space between and a LF at the end
abbrev pub saying_line : List ℕ × List ℕ → List ℕ
saying_line it = it.0 ++ (32 ∷ (it.1 ++ 10 ∷ []))

-- the text of a report: what it says, line by line
abbrev pub report_text : Report → List ℕ
report_text report = flat_map saying_line (outcome report ++ attempts report ++ losses report ++ reads report)
