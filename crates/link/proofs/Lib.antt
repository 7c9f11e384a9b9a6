mod Runs
mod Puts
