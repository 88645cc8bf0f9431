mod Utf8Texts
mod WordLemmas
