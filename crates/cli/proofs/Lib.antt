mod Needed
mod Shown
