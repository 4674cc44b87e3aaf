mod Holding
mod Telling
