use Rattle.plain_job.proofs.Sections as sections
use Rattle.plain_job.proofs.laws.sections_make_the_job.Goals as goal

pub returns-clause-part : goal.returns-clause-part
returns-clause-part c = sections.sections_make_the_part

pub returns-clause-splits : goal.returns-clause-splits
returns-clause-splits c = sections.splits_make_the_section

pub returns-clause-rounds : goal.returns-clause-rounds
returns-clause-rounds c = sections.sections_serve_each_round
