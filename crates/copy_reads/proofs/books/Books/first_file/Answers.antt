use Rattle.std.proofs.Common.{◌≡◌, slice_get, subst, sym}
use Rattle.std.specs.Prelude.{option_map}
use Rattle.valid_copies.specs.Files.{try_of}
use Rattle.copy_reads.specs.Readers.{tries_by}
use Rattle.copy_reads.proofs.Holders.{each_under}
use Rattle.copy_reads.proofs.Tries.{first_part}
use Rattle.copy_reads.proofs.books.Books.first_file.Goals as goal

pub returns-in-Attempt-clause-there : goal.returns-in-Attempt-clause-there
returns-in-Attempt-clause-there c = each_under c.args.self.now.table c.near_file.result c.len-names.ensures.order c.near_file.ensures.kept

pub returns-in-End-clause-first : goal.returns-in-End-clause-first
returns-in-End-clause-first c = λ p of. subst (λ reader. slice_get (tries_by reader c.args.name.now p) 0 ≡ option_map try_of c.up_file.result) (sym c.in-End.is) (first_part c.args.self.now p c.args.name.now c.up_file.result of c.up_file.ensures.none c.up_file.ensures.lowest)
