use borrow.Author.Rules.{rules}
use Rattle.cafruzek.proofs.RecordCases.{written_few}
use Rattle.cafruzek.proofs.cafruzek_write_record.Goals as goal

pub counted-requires : goal.counted-requires
counted-requires c = search (written_few, rules)
