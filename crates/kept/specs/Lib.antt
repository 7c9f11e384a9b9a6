-- When a fresh receiver keeps a survey's pieces and finishes it: the calls (Survey), the test (Kept), and that the calls are all answered 0 exactly where
-- the test holds (ExactlyLaws). Files whose names end in `Laws` define nothing that has to be believed.
pub mod Sizes
pub mod Survey
pub mod Kept
