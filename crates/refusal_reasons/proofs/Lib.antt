mod Naming
mod Waiting
