mod Parts
mod DuesInOrder
mod BrokenTokens
mod BrokenLists
mod BrokenWords
mod BrokenScripts
mod Examples
