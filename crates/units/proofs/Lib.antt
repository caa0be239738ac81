mod Wrongs
mod Lent
