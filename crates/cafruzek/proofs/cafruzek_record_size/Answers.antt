use borrow.Author.Rules.{rules}
use Rattle.cafruzek.proofs.RecordCases.{extent_few}
use Rattle.cafruzek.proofs.cafruzek_record_size.Goals as goal

pub counted-requires : goal.counted-requires
counted-requires c = search (extent_few, rules)
