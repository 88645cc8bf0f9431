mod Digits
mod Pairs
