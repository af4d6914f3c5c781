pub mod CodeJudge
