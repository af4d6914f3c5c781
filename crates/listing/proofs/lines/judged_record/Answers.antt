use borrow.Author.Rules.{rules}
use Rattle.listing.specs.Listing.{judged_record, literals_of}
use Rattle.listing.proofs.lines.judged_record.Goals as goal

pub returns-in-Ok : goal.returns-in-Ok
unfolding judged_record literals_of
returns-in-Ok c = search rules

pub returns-in-Err : goal.returns-in-Err
unfolding judged_record literals_of
returns-in-Err c = search rules
