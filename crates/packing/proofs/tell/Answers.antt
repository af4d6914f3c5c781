use borrow.Author.Rules.{rules}
use Rattle.packing.proofs.JudgeCases.{literals_fit, smaller_row, smaller_column, smaller_packed, smaller_arranged, none_packed, none_arranged, cut_packed, cut_arranged, refusal_number, refusal_packed, refusal_arranged}
use Rattle.packing.proofs.tell.Goals as goal

pub joined-requires : goal.joined-requires
joined-requires c = search (smaller_row, smaller_column, literals_fit, rules)

pub refused-requires : goal.refused-requires
refused-requires c = search (refusal_number, rules)

pub returns-in-Smaller : goal.returns-in-Smaller
returns-in-Smaller c = search (smaller_packed, smaller_arranged, rules)

pub returns-in-Nothing : goal.returns-in-Nothing
returns-in-Nothing c = search (none_packed, none_arranged, rules)

pub returns-in-Cut : goal.returns-in-Cut
returns-in-Cut c = search (cut_packed, cut_arranged, rules)

pub returns-in-Refused : goal.returns-in-Refused
returns-in-Refused c = search (refusal_packed, refusal_arranged, rules)
