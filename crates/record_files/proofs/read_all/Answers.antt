use borrow.Author.Rules.{rules}
use Rattle.record_files.proofs.Reading.{read_more}
use Rattle.record_files.proofs.read_all.Goals as goal

pub loop-n-preserved : goal.loop-n-preserved
loop-n-preserved g c = (search rules, search rules, search (rules, read_more))
