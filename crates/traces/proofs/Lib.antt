mod Pieces
mod Runs
mod Worlds
mod Sections
mod Passing
mod Told
mod Noting
mod InCluster
