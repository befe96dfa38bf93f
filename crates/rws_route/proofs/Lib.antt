mod Falling
