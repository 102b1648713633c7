mod Made
mod Loaded
