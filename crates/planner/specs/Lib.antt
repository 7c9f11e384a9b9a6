-- C-21: the plan by what is asked of it (Plan), what it comes to (FormLaws), and what it promises, against the receiver's calls (PlanLaws).
pub mod Plan
pub mod Form
