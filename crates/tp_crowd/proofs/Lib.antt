mod Framing
mod Guests
mod Reading
mod Controlling
mod Commanding
