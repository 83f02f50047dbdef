mod Rooms
mod Sizes
mod Joined
mod ManyCosts
