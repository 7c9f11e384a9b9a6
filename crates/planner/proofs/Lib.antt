pub mod FirstLaws
pub mod FormLaws
pub mod WordsLaws
pub mod PlanLaws
pub mod AnswerLaws
pub mod WorkedLaws
