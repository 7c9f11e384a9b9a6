-- what is said: the calls, the ledger, demand 3, and the parts of what is fed to the ledger
pub mod Run
pub mod Ledger
pub mod Statement
pub mod Made
pub mod Only
pub mod Between
pub mod Came

-- refusals change nothing
-- demand 3
-- oldest first, each once
-- nothing earlier and no other id
-- an init that comes again, and what is kept until it does
-- what is kept of a chunk is what came
-- what one source leaves to the others
-- a store that a packet does not concern
-- worked runs
