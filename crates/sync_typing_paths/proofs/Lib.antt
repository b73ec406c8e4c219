mod Trees
mod Walks
mod Counting
mod Staging
