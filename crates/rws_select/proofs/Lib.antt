-- the best of the servers seen so far
mod Choices
-- the choice is one
mod OneChoice
