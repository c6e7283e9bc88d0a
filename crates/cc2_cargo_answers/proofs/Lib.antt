mod Giving
mod Tables
mod Values
