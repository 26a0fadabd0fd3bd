mod Changing
mod Opening
