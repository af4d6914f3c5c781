use borrow.Author.Rules.{rules}
use Rattle.packing.proofs.JudgeCases.{is_judgement}
use Rattle.cafruzek.proofs.cafruzek_judge_rows.Goals as goal

pub tell-requires : goal.tell-requires
tell-requires c = search (is_judgement, rules)
