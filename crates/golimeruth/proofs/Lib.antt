mod Hexadecimal
mod Told
