mod Chained
mod FirstRuns
mod Joined
mod OneChanged
mod Pairs
mod PoppedChars
mod TakenRuns
