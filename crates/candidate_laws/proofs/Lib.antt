mod Membership
mod Worked
