use borrow.Author.Rules.{rules}
use Rattle.laws.specs.Test.{pick}
use Rattle.refusal.proofs.NumberLaws.{number_range}
use Rattle.judging.specs.Answer.{told, without}
use Rattle.packing.specs.Packing.{refusal, code_told, low_told, packed}
use Rattle.packing.specs.Telling.{arranged_by, arranged_after}
use Rattle.packing.proofs.JudgeCases.{is_judgement}
use Rattle.cafruzek.specs.Answers.{judge_read, judge_read_buffer}
use Rattle.cafruzek.proofs.RecordCases.{read_checked}
use Rattle.cafruzek.proofs.cafruzek_judge_record.Goals as goal

pub invariant_of-formed : goal.invariant_of-formed
invariant_of-formed c = search (read_checked, rules)

pub tell-requires : goal.tell-requires
tell-requires c = search (is_judgement, rules)

pub returns : goal.returns
unfolding judge_read judge_read_buffer
returns c = search rules

pub refused-requires : goal.refused-requires
refused-requires c = search (number_range, rules)

pub returns-in-Err : goal.returns-in-Err
unfolding judge_read judge_read_buffer without packed told code_told low_told refusal arranged_after arranged_by pick
returns-in-Err c = search rules
