mod Rooms
mod Settles
mod Sends
mod Lines
mod Shows
