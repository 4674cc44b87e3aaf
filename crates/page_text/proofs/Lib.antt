mod Escaping
mod Growing
